-- The modules of `proofs/`: laws of the definitions in `specs/`, and examples.
pub mod AnswersLaws
pub mod ClaimsHold
pub mod Examples
pub mod LengthLaws
pub mod TextLaws

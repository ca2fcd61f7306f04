-- The modules of `proofs/`: laws of the definitions in `specs/`, and examples.
pub mod ClaimsHold
pub mod DrawLaws
pub mod DrawingLaws
pub mod Examples
pub mod PartLaws

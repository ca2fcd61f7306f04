-- The modules of `proofs/`: laws of the definitions in `specs/`, and examples.
pub mod Bounds
pub mod DigitsLaws
pub mod Formulas
pub mod ListsLaws
pub mod SignsLaws

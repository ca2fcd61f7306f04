-- The modules of `proofs/`: laws of the definitions in `specs/`, and examples.
pub mod BoundLaws
pub mod Branches
pub mod Examples
pub mod RefusalsLaws
pub mod RowsLaws
pub mod RulesLaws
pub mod SearchLaws
pub mod StreakLaws

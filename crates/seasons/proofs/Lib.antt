-- The modules of `proofs/`: laws of the definitions in `specs/`, and examples.
pub mod ClaimsHold
pub mod Examples
pub mod ListLaws
pub mod RunLaws
pub mod SeasonLaws
pub mod SheetsHold

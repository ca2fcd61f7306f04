-- The modules of `proofs/`: laws of the definitions in `specs/`, and examples.
pub mod EntriesLaws
pub mod Examples
pub mod FieldLaws
pub mod NumberLaws
pub mod ReadingLaws
pub mod TakenLaws
pub mod TextLaws

-- The modules of `proofs/`: laws of the definitions in `specs/`, and examples.
pub mod DecimalLaws
pub mod Examples

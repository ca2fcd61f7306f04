-- The modules of `proofs/`: laws of the definitions in `specs/`, and examples.
pub mod CountLaws
pub mod DispatchingLaws
pub mod Examples
pub mod HistoryLaws
pub mod RunHolds
pub mod RunLaws

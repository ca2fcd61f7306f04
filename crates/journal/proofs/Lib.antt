-- The modules of `proofs/`: laws of the definitions in `specs/`, and examples.
pub mod CleanLaws
pub mod Examples
pub mod JournalLaws
pub mod RunHolds
pub mod RunLaws
pub mod SpellingLaws
pub mod StreakLaws

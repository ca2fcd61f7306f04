-- What must be believed stands in Answers, Journal, Spelling, Reading and Run, which hold no proofs; Examples, in proofs/, works them by hand. The
-- claim about whole runs is proved in RunHolds, in proofs/ too.
pub mod Answers
pub mod Journal
pub mod Spelling
pub mod Reading
pub mod Run

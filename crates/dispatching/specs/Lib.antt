-- What must be believed stands in Dispatching, Calls and Run, which hold no proofs; Examples, in proofs/, works them by hand. The claim about whole
-- runs is proved in RunHolds, in proofs/ too.
pub mod Dispatching
pub mod Calls
pub mod Run

-- What must be believed stands in Registers, Exchange, Requests and Claims, which hold no proofs; Examples, in proofs/, works them by hand. The claims are
-- proved in ClaimsHold, in proofs/ too.
pub mod Registers
pub mod Exchange
pub mod Requests
pub mod Claims
pub mod Inner

-- What must be believed stands in Loading and Claims, which hold no proofs; Examples, in proofs/, works them by hand. The claims are proved
-- in ClaimsHold, in proofs/ too.
pub mod Loading
pub mod Claims

-- What must be believed stands in Survey and Claims, which hold no proofs; Examples, in proofs/, works them by hand. The claims are proved
-- in ClaimsHold, in proofs/ too. Inner has what inner contracts cite.
pub mod Survey
pub mod Claims
pub mod Inner

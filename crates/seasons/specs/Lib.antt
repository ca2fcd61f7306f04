-- What must be believed stands in Season, Sheets and Claims, which hold no proofs; Examples, in proofs/, works them by hand. The claims are proved in
-- ClaimsHold and SheetsHold, in proofs/ too.
pub mod Season
pub mod Sheets
pub mod Claims
pub mod Inner

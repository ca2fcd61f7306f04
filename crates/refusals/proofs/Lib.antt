-- The modules of `proofs/`.
pub mod Laws

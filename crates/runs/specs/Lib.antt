-- The modules of `specs/`.
pub mod Listed

-- The modules of `specs/`.
pub mod Ready

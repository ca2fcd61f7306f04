-- The modules of `specs/`.
pub mod SoFar

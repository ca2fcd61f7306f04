-- The modules of `specs/`.
pub mod Ran

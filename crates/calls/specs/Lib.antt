-- The modules of `specs/`.
pub mod Stored

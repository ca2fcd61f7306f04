-- The modules of `specs/`.
pub mod Cleaned
pub mod CleanedLaws

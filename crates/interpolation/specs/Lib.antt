-- The modules of `specs/`.
pub mod Ranges
pub mod Estimates

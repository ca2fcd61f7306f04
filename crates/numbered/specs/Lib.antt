-- The modules of `specs/`.
pub mod Numbered
pub mod Inner

-- The modules of `specs/`.
pub mod Numbers

-- The modules of `specs/`.
pub mod Interface

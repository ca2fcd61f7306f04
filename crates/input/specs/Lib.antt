-- The modules of `specs/`.
pub mod Input

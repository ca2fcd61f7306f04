-- The modules of `specs/`.
pub mod Listed
pub mod ListedLaws

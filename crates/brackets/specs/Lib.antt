-- The modules of `specs/`.
pub mod Countable
pub mod CountableLaws

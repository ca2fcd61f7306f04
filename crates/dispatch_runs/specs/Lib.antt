-- The modules of `specs/`.
pub mod Runs
pub mod RunsLaws

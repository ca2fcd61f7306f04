-- The modules of `specs/`.
pub mod Printed
pub mod PrintedLaws
mod Examples

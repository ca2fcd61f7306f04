-- The modules of `specs/`.
pub mod Bytes
pub mod Decimal
pub mod Line

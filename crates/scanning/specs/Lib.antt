-- What a scanner of a text finds, and the laws that tie it to the definitions of crate `forms`.
pub mod Scan
pub mod First
pub mod Places
pub mod Rows
pub mod Fields
pub mod Rest

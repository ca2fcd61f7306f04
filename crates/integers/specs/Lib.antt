-- The definitions are Signs, Digits and Lists. The laws are in proofs/.
pub mod Signs
pub mod Digits
pub mod Lists

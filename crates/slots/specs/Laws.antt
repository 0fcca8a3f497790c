pub mod Digits
pub mod Ones

pub mod Choice
pub mod Lists
pub mod Sort
pub mod Bytes
pub mod Laws

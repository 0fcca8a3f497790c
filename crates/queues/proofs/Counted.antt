pub mod Place
pub mod Rows
pub mod Read
pub mod Rewrite
pub mod Delete

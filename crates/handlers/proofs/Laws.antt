pub mod Set
pub mod Kept

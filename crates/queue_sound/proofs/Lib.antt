pub mod Both
pub mod Drains
pub mod Pointers
pub mod Whole

pub mod Lowest
pub mod Words
pub mod Slots
pub mod Free

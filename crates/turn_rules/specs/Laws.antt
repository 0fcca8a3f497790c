pub mod Kept
pub mod Fine
pub mod Room
pub mod Sender
pub mod Parts
pub mod Sizes
pub mod Lent

pub mod Running
pub mod Ended

pub mod Start
pub mod Dispatch
pub mod Retrieve
pub mod Tasks
pub mod Cancel

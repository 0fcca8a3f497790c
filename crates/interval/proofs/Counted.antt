pub mod Define
pub mod Standing
pub mod Start
pub mod Cancel
pub mod Dispatch
pub mod Retrieve

pub mod Append
pub mod Rewrite
pub mod Delete
pub mod Kept
pub mod Runs
pub mod Space
pub mod Every

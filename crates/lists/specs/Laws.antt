pub mod Answers
pub mod Leaves
pub mod Runs
pub mod Model

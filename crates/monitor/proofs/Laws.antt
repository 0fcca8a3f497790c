pub mod Step
pub mod Held
pub mod Demands

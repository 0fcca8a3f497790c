pub mod TurnKept
pub mod Deeds
pub mod Step
pub mod Fresh
pub mod Every
pub mod Held
pub mod Demands
pub mod Run

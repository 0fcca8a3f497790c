pub mod Fine
pub mod Room
pub mod Deeds
pub mod Step
pub mod Lanes
pub mod Every

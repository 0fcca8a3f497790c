pub mod Define
pub mod Part

pub mod Circle
pub mod Clock
pub mod Every
pub mod Typed
pub mod Ties
pub mod Fresh
pub mod Define
pub mod Advance

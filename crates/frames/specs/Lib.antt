pub mod Action
pub mod Framing
pub mod Refused
pub mod Reading
pub mod Writing
pub mod Laws

pub mod Text
pub mod Lines
pub mod Decoded
pub mod Forms

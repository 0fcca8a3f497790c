pub mod Numbers
pub mod Records
pub mod Reading
pub mod Framing
pub mod Runs
pub mod Laid
pub mod Encoded
pub mod Tails

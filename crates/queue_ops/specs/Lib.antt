pub mod Seen
pub mod Entry
pub mod Sweep
pub mod Row

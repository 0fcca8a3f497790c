pub mod Counted
pub mod Puts
pub mod Lent
pub mod Worked

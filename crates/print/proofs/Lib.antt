pub mod Counted
pub mod Digits
pub mod Printed
pub mod Worked

pub mod Machine
pub mod Worked
pub mod Laws

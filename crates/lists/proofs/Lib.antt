pub mod Running
pub mod Laning
pub mod Again

pub mod Run
pub mod Laws

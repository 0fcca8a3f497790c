pub mod Laws
pub mod Monitor
pub mod Examples

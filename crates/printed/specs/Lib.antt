pub mod Form
pub mod Laws

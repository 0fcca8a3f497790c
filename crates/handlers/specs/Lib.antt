pub mod Table
pub mod Rows
pub mod Fresh
pub mod Set
pub mod Decide
pub mod Forget
pub mod Names
pub mod Laws

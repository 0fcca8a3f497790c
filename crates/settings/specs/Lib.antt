pub mod Rows
pub mod Table
pub mod Names
pub mod Fresh
pub mod Set
pub mod Decide
pub mod Forget
pub mod Laws

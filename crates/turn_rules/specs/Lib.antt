pub mod Tables
pub mod Lent
pub mod Ask
pub mod Turn
pub mod Standing
pub mod Run
pub mod Laws

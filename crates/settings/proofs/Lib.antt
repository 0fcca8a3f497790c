pub mod Clauses
pub mod Coded
pub mod Places

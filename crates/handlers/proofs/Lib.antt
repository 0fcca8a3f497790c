pub mod Typed
pub mod RowSound
pub mod Coded
pub mod Clauses
pub mod Told
pub mod Laws

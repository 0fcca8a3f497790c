pub mod Column
pub mod Shut
pub mod Said

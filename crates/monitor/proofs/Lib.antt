pub mod Arms
pub mod Asking
pub mod Laid
pub mod Stepping
pub mod Told
pub mod Laws
pub mod Examples

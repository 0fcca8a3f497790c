pub mod Sound
pub mod Laws

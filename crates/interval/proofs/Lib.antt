pub mod Counted
pub mod Places
pub mod Busy
pub mod SoundLaws
pub mod SoundLawsWhole
pub mod Told
pub mod Laws

pub mod Standing
pub mod Decide
pub mod Forget
pub mod Every

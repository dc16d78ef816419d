-- Laws of the loader.
pub mod Standing
pub mod Stepping
pub mod Following
pub mod Keeping
pub mod Going
pub mod Singles
pub mod Valuing
pub mod Scanning
pub mod Settling
pub mod Loading

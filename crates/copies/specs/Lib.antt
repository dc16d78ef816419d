-- What copies leave.
pub mod Fills

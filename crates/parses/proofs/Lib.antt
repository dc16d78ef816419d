-- Laws of the loop and of the parser.
pub mod Stacking
pub mod Looping
pub mod Finishing

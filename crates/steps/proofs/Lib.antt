-- Laws of the steps.
pub mod Choosing
pub mod Expecting

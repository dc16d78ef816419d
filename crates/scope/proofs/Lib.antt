-- Laws of a scope's words, and of the declared variables.
pub mod Slots
pub mod Given

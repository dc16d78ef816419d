-- Laws of one node more.
pub mod Emitting

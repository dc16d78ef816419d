-- Laws of refusals and of the answers that are told by them.
pub mod Told

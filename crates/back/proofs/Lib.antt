-- Laws of reading an answer file.
pub mod Judging

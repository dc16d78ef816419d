-- Laws of spelling.
pub mod Spelling

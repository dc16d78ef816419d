-- Laws of what the rules do at an entry, as its words are read.
pub mod Reading

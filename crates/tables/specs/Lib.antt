-- Declared variables by their words.
pub mod Rows

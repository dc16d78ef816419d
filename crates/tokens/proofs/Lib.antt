-- Laws of runs of bytes and of tokens.
pub mod Runs
pub mod Decimals
pub mod Rows
pub mod Fronts
pub mod Inside
pub mod Numbers

-- What the running program prints.
pub mod Prints

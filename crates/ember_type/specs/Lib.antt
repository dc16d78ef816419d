-- What the typing program prints.
pub mod Prints

-- Why the program need not read more than it does.
pub mod Whole

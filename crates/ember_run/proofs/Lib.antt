-- Why the program need not read more of a job than it does.
pub mod Whole

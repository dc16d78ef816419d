-- Laws of reading a job.
pub mod Checking
pub mod Telling

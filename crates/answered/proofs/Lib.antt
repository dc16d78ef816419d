-- Laws of answering a job.
pub mod Leaving

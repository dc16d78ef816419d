-- Laws of typing a job.
pub mod Beginning
pub mod Leaving
pub mod Telling

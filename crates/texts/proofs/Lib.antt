-- Laws of writing a job's query as text.
pub mod Leaving

-- Laws of running a job. Read in this order.
pub mod Spreading
pub mod Evaluating
pub mod Leaving
pub mod Telling

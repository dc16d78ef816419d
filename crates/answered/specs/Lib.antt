-- What answering a job answers and leaves.
pub mod Says

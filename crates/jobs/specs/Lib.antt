-- What reading a job answers and leaves.
pub mod Says

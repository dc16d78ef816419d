-- What writing a job's query as text answers and leaves.
pub mod Says

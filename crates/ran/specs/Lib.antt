-- What running a job answers and leaves, in the terms of `meaning`.
pub mod Says

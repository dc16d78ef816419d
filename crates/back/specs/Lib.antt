-- What reading an answer file answers and leaves.
pub mod Says

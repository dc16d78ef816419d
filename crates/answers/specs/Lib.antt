-- What writing an answer file answers and leaves, in document 01's terms.
pub mod Says
pub mod Parts

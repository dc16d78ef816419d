-- What the checks answer in document 01's terms, and what they are given.
pub mod Says

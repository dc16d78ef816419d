-- What one node more is, and what a part of a text gives.
pub mod Says

-- The code's types by their entries.
pub mod Says

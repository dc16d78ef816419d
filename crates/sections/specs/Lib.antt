-- What the writer of a query section is given, answers and leaves.
pub mod Says

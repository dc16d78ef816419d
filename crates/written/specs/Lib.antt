-- What the writer of a query's text is given, answers and leaves.
pub mod Says

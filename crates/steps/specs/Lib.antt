-- What the steps of the parser answer.
pub mod Says

-- What the items of a text are, step by step.
pub mod Machine
pub mod Says

-- What the evaluator asks and leaves, and how it goes.
pub mod Evaluates
pub mod Machine

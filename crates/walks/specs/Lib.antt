-- The stack of a walk over a type, and its steps.
pub mod Frames

-- The laws behind the writer. Read in this order.
pub mod Extending
pub mod Fields
pub mod Putting
pub mod Turns
pub mod Whole
pub mod Back

-- How much of a room is filled.
pub mod Counts

-- A lent type table that typing grows, and what a rule of the code leaves.
pub mod Grow

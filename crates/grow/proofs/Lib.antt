-- Laws of a type table that typing grows. Read in this order.
pub mod Entries
pub mod Tables
pub mod Growth
pub mod Steps

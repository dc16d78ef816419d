-- Laws of records of query nodes.
pub mod Fields
pub mod Turns

-- Laws of the query at a node of a table.
pub mod Named

-- Laws of the fields that name nodes and of tables of counts. Read in this order.
pub mod Fields
pub mod Counts
pub mod Counting

-- What a table of counts says, and what is asked of the lent tables.
pub mod Counts

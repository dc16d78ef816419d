-- What a table of marks says, and what the pass over the types and the search among the variables ask.
pub mod Marks

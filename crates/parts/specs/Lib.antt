-- The parts of a query's text, and a lent stack of them.
pub mod Items
pub mod Stacks

-- Laws of a query's text, of the nodes that open too deep, and of the walk. Read in this order.
pub mod Flat
pub mod Deep
pub mod Lows
pub mod Laying
pub mod Sums
pub mod Trees
pub mod Words
pub mod Going
pub mod Turns
pub mod Leaving
pub mod Whole

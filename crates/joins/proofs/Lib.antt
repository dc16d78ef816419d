-- Laws of queries from what the walks of their parts left. Read in this order.
pub mod Composed
pub mod Growing
pub mod Added

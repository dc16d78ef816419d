-- Laws of the rules that walk a type. Read in this order.
pub mod Tall
pub mod Stack
pub mod Acting
pub mod Turns
pub mod Going
pub mod Grown
pub mod Filters
pub mod Repeats

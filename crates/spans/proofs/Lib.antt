-- Laws of stretches of a table and of scopes of them. Read in this order.
pub mod Parts
pub mod Binding

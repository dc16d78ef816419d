-- Laws of answers one after another, of conditions by their kind, of the walk over them, and of what callers are told. Read in this order.
pub mod Judging
pub mod Nodes
pub mod Going
pub mod Told

-- Laws of the acts that read a condition, and of their loop. Read in this order.
pub mod Acting
pub mod Leaves
pub mod Beginning
pub mod Resuming
pub mod Going

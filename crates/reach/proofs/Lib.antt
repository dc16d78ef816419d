-- Laws of marks in words, of what is still to be visited, and of the atoms picked by them. Read in this order.
pub mod Marks
pub mod Pushing
pub mod Steps
pub mod Reaching
pub mod Atoms

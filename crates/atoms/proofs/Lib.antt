-- Laws of marks and of the search among the variables. Read in this order.
pub mod Entries
pub mod Marking
pub mod Variables

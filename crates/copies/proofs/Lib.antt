-- Laws of copies. Read in this order.
pub mod Lent
pub mod Filling
pub mod Firsts
pub mod Choosing
pub mod Gathering

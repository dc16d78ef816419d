-- Laws of the array of classes. Read in this order.
pub mod Laws
pub mod Words
pub mod Lacking
pub mod Climbing

-- Laws of reading. Read in this order.
pub mod Looking
pub mod Admitting
pub mod Decoding
pub mod Holding
pub mod Storing
pub mod Going
pub mod Whole
pub mod Leaving

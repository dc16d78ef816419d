-- Laws of conditions. Read in this order.
pub mod Alike
pub mod Telling

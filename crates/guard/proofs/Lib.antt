-- Laws of the sets of definitions, and that they say which definition reaches itself. Read in this order.
pub mod Bits
pub mod Owning
pub mod Filling
pub mod Beginning
pub mod Closing
pub mod Circles
pub mod Answering

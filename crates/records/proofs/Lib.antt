-- Laws of one record. Read in this order.
pub mod Arms
pub mod Fields
pub mod Found
pub mod Fit

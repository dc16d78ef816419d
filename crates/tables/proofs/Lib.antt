-- Laws of what a lent table is seen as.
pub mod Rows

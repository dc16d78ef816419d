-- Laws of lent tables. Read in this order.
pub mod Stores
pub mod Tests
pub mod Rows
pub mod Tables
pub mod Entries

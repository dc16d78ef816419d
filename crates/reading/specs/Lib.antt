-- What the code's structs and enums say of reading in document 01's terms.
pub mod Says
pub mod Steps
pub mod Lists

-- What the code's enums and structs say in document 01's terms.
pub mod Says

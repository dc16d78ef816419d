-- What the code's tokens say.
pub mod Says

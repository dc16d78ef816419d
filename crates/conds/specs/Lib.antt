-- What the answers of this crate say in the terms of `meaning`.
pub mod Says

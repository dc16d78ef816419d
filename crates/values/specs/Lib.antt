-- What the loader's answers say in the terms of `meaning`.
pub mod Says

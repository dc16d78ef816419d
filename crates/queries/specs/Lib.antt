-- What a query node of this crate says in the terms of `meaning`.
pub mod Says

-- Laws of types by the kind of their entry.
pub mod Numbers

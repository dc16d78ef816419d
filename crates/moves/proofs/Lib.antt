-- Laws of what queries add to their parts.
pub mod Adding

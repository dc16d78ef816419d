-- Laws of parts.
pub mod Pushing
pub mod Nodes

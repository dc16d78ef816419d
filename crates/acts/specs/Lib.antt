-- What the rules prime, content and filter do at one entry.
pub mod Acts

-- What queries add to their parts.
pub mod Moves

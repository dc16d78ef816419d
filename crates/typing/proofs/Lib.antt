-- Laws of the walk: what is left of a query when a part of it has answered, steps down and up, and the whole walk.
pub mod Onward
pub mod Turning
pub mod Returning
pub mod Stack
pub mod Going

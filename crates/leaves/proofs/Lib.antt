-- Laws of the steps of the walk.
pub mod Steps

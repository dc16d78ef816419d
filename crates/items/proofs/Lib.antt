-- Laws of the items of a text.
pub mod Outs
pub mod Frames
pub mod Doing
pub mod Items
pub mod Openings
pub mod Guards
pub mod Begins
pub mod Goings
pub mod Framed

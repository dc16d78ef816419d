-- Laws of evaluation: what parts of a query are given, and what a query leaves from what its parts left; and of the loop: its frames, where its parts
-- are done, and where it has come to. Read in this order.
pub mod Given
pub mod Leaving
pub mod Wholes
pub mod Rounds
pub mod Frames
pub mod Inside
pub mod Parts
pub mod Returning
pub mod Rounding
pub mod Entering
pub mod Going

-- What the typing walk asks and leaves.
pub mod Walking

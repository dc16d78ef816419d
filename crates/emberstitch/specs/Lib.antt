-- What each public operation promises.
pub mod Promises

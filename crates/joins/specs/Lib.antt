-- What a query adds to the walks of its parts.
pub mod Joins

-- What the promises rule out.
pub mod Once
pub mod Jobs
pub mod Typings
pub mod Calls
pub mod RoundTrip
pub mod Longest
pub mod Older
pub mod Runs

-- What queries without parts leave.
pub mod Picks

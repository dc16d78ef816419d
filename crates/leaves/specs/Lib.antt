-- A step of the typing walk: what it is given, what it answers, and the walk as a rule on the type table.
pub mod Walk

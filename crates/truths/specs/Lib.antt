-- When a condition is told rightly.
pub mod Tells

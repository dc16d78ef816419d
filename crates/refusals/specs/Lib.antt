-- The code's refusals in the papers' numbers.
pub mod Says
pub mod Text

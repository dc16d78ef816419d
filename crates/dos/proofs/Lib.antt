-- Laws of the unions that dos makes, and of the rule. Read in this order.
pub mod Uniting
pub mod Rule

-- What the loop and the parser are given, answer and leave.
pub mod Says

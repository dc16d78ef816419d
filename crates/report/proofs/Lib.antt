-- Laws of lines and pages.
pub mod Lines
pub mod Pages
pub mod Digits

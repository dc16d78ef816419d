-- The lines of a report, as bytes, and the page that they are gathered on.
pub mod Text
pub mod Pages

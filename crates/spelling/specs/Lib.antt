-- What spelling a piece leaves in a lent buffer.
pub mod Says

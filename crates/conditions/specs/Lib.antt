-- What a condition of a text gives, and the acts that read it.
pub mod Says
pub mod Frames

-- Marks as the code keeps them, and the atoms that it picks by them.
pub mod Marks
pub mod Atoms

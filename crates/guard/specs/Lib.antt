-- Sets of definitions as the code keeps them, and what the code's answers say.
pub mod Sets
pub mod Says

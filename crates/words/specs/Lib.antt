-- Lent tables as the definitions see them, and what the code's structs and enums say.
pub mod Tables
pub mod Says

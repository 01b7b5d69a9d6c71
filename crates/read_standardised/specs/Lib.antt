-- The joined call, and the two ways that demand 3 compares.
pub mod Says
pub mod Joined
pub mod Ways

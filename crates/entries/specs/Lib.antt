-- Entries of a list.
pub mod Entry
pub mod Says
pub mod Private

pub mod Root
pub mod Private

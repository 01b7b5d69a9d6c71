-- How an answer of the core crosses the C interface.
pub mod Interface
pub mod Private

-- What an index chooses, as a list. Each definition sets out words of document 01, which stand above it.
pub mod Numbers
pub mod Checks
pub mod Says
pub mod Private

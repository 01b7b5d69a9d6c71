-- What packing and writing say. Each definition sets out words of document 01, which stand above it.
pub mod Packing
pub mod First
pub mod Writing
pub mod Says
pub mod Groups
pub mod Private

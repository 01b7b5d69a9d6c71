-- What the canonical call says. Each definition sets out words of document 01, which stand above it.
pub mod Canonical
pub mod Says
pub mod Private

-- Header and length. Each definition sets out words of document 01, which stand above it.
pub mod File
pub mod Says

-- The statistics of a marker. Each definition sets out words of document 01, which stand above it.
pub mod Statistics
pub mod Calls

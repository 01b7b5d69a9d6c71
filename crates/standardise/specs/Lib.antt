-- Standardising: the statistics of a marker, what a call answers, and what it leaves. Each definition sets out words of document 01, which
-- stand above it.
pub mod Standardised
pub mod Refused
pub mod Says
pub mod Private

-- The theorems.
pub mod Least
pub mod Opposing
pub mod Limit
pub mod Theorems
pub mod Answers
pub mod Examples
pub mod FileExamples

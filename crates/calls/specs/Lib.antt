-- The calls of a file: their codes, and where they stand.
pub mod Calls
pub mod Places
pub mod Lists

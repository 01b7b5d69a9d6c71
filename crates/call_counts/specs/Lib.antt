-- What counting calls says: the checks, and the four counts of each marker.
pub mod Counts
pub mod Private
pub mod Runs

-- What the contracts of this crate cite.
pub mod Lines
pub mod Readings
pub mod Beginnings
pub mod Words
pub mod Buffers
pub mod WordLaws

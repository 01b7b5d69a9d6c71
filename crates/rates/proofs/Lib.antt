-- What follows from the words.
pub mod Decimals
pub mod InputLaws
pub mod CountLaws
pub mod Fits
pub mod Reports
pub mod Lines
pub mod Examples

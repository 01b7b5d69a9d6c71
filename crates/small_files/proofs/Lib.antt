pub mod Digits
pub mod Serials
pub mod Theorems
pub mod Examples

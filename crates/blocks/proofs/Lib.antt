pub mod Widths
pub mod Products

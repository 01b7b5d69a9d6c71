pub mod FloatLaws
pub mod CountLaws
pub mod Exact
pub mod Places
pub mod Names
pub mod SumLimit

pub mod CanonicalLaws
pub mod WholeLaws
pub mod KeptLaws
pub mod TurnLaws
pub mod WrittenLaws
pub mod Theorems
pub mod Examples

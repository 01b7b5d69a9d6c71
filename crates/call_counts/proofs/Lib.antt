pub mod TallyLaws
pub mod BlockLaws
pub mod BitLaws
pub mod PartLaws
pub mod CountLaws
pub mod Theorems
pub mod Examples

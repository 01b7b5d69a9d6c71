pub mod CheckLaws
pub mod ColumnLaws
pub mod PackLaws
pub mod Theorems
pub mod Examples

pub mod ReadLaws
pub mod DrawLaws
pub mod TableLaws
pub mod TileLaws
pub mod PartLaws
pub mod BufferLaws
pub mod MatrixLaws

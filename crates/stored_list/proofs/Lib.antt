pub mod ListLaws
pub mod TextLaws
pub mod ReadLaws

-- The product pieces. Each definition sets out words of document 01, which stand above it.
pub mod Values
pub mod Dot
pub mod Piece
pub mod Says
pub mod Private
pub mod Lent

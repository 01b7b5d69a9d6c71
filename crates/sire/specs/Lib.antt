-- Words of W-211 of document 02, which stand above each definition.
pub mod Least
pub mod Sire

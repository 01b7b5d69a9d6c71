-- What reading says: the lists' checks, and the matrix that is read.
pub mod Reading
pub mod Says
pub mod Private

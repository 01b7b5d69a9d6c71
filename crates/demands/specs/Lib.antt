-- Words that only theorems speak in. Each definition sets out words of document 01, of document 02 or of the PLINK 1.9 format reference.
pub mod Demand
pub mod Observed
pub mod Alike
pub mod SmallHerds
pub mod PlinkFile
pub mod ReadBack
pub mod Composed
pub mod Cut

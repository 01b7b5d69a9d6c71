-- Codes, the values that they stand for, and the PLINK 1.9 reference in its own terms.
pub mod Code
pub mod Value
pub mod Plink

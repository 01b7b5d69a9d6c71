-- The report on the month's files. Each definition sets out words of W-201 of document 02, which stand above it.
pub mod Text
pub mod Input
pub mod Report
pub mod Words

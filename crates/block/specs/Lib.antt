-- What one marker's block says. Each definition sets out words of document 01, which stand above it. Of a block with a count of its own document 01
-- orders no checks but that `encode1` checks 16 first: the other places in these orders are this project's own.
pub mod Blocks
pub mod Says

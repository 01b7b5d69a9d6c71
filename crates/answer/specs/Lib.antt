-- What every call speaks in: answers and checks, lists by their places, matrices. Each definition sets out words of document 01, which stand above it.
pub mod Answer
pub mod Lists
pub mod Matrix

-- What the C interface says over the definitions of the crates that it calls.
pub mod Interface
pub mod Header

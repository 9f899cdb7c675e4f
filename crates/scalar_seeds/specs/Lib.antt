pub mod Scalars
pub mod Integer

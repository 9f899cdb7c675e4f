pub mod Chosen
pub mod OfShape
pub mod Places
pub mod Readers
pub mod Seeds
pub mod Steps

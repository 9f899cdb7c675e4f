pub mod Depths
pub mod Edits
pub mod Places
pub mod Views
pub mod Walks

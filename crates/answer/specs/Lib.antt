pub mod Line
pub mod LentShape

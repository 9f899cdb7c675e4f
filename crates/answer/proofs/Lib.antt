pub mod Printing
pub mod NoFloat
pub mod Rows

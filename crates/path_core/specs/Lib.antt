pub mod Error
pub mod ErrorText

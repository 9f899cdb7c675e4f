pub mod Unexpected
pub mod ErrorView
pub mod Report
pub mod OfItems
pub mod ErrorText

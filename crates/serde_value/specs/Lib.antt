pub mod View
pub mod Sizes
pub mod Deserializer
pub mod Fed
pub mod Reading
pub mod Captured
pub mod Seen
pub mod InOrder

pub mod Agreement
pub mod FirstVersion
pub mod ByName
pub mod Streams
pub mod Courses
pub mod Replies
pub mod Hands

pub mod Elements
pub mod Keys
pub mod Entries
pub mod Within
pub mod Counted
pub mod Kept
pub mod Skipped
pub mod Swallowed

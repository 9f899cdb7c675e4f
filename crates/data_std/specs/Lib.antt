pub mod Ignored
pub mod Compound
pub mod Pairs
pub mod Entry
pub mod Whole
pub mod Told
pub mod ToldMaps
pub mod Swallowed

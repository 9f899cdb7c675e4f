pub mod Outside
pub mod SteadySource
pub mod MemorySink
pub mod Calls
pub mod Course
pub mod MemorySource

pub mod ErrorView
pub mod Waiting
pub mod Items
pub mod Sequences
pub mod PairSources
pub mod MapSources
pub mod Plain

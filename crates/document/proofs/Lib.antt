pub mod SoleMember
pub mod NamePairs
pub mod TwoValues
pub mod Elements
pub mod Documents
pub mod FieldViews

pub mod Order
pub mod Linking
pub mod Rows
pub mod RowLaws
pub mod Paths
pub mod LinkingLemmas

pub mod Paths
pub mod Linking
pub mod Walks
pub mod Parts
pub mod Gathering

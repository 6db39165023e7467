pub mod Ranging
pub mod Chained
pub mod Rightwise

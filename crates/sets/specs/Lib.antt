pub mod Members
pub mod Tests
pub mod Counting
pub mod Bytes

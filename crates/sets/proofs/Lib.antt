pub mod Membership
pub mod Counts
pub mod ByteValues
pub mod Rising
pub mod Gathering

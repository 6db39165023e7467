pub mod Orders
pub mod Rules
pub mod Rejections
pub mod Checks
pub mod Judgement
pub mod Laws

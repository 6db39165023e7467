pub mod Some
pub mod Rights
pub mod ViewRules

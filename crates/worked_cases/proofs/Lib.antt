pub mod Telling
pub mod SetTests
pub mod OrderTests
pub mod Trials
pub mod RightTests
pub mod RuleTests
pub mod Judging
pub mod Table

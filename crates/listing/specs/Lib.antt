pub mod Reports
pub mod JudgedReports
pub mod Judgements

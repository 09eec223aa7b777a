pub mod Promises
pub mod Reports

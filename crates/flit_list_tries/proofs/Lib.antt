pub mod Known
pub mod Keys
pub mod Paid
pub mod Outcomes
pub mod Growing
pub mod Tries

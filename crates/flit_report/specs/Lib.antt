pub mod Lines
pub mod Content
pub mod Report

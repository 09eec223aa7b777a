pub mod RunReports
pub mod RunLaws

pub mod StepReports
pub mod StepLaws

pub mod OpenedRuns
pub mod ItemCounts
pub mod OrderLaws

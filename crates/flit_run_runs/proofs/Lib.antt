pub mod EachWorker
pub mod MergedCalls
pub mod Opened
pub mod ToldReports
pub mod ToldCalls
pub mod CountedOutcomes
pub mod SummaryReports

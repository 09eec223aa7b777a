pub mod Answers
pub mod Errors
pub mod FaultLines
pub mod Reading
pub mod Statuses
pub mod Writing

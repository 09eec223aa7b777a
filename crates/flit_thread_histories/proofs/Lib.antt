pub mod Parts
pub mod WorkerPosts
pub mod WithTaken
pub mod ToldWorkers
pub mod Promised
pub mod EndsOrder
pub mod Reported
pub mod Unqueued

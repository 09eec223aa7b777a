pub mod Following
pub mod Reached
pub mod Calls
pub mod Orders
pub mod Laws
pub mod TurnLaws
pub mod Counts
pub mod Promises

pub mod Walks
pub mod Steps
pub mod Reaching
pub mod Branches
pub mod Finding
pub mod Playing

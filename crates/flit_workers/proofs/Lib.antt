pub mod Growing
pub mod Sharing
pub mod Finishing
pub mod TakenIn
pub mod GatheredNames

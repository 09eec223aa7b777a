pub mod Links
pub mod Paths
pub mod Chained
pub mod Moves
pub mod Keeping
pub mod Winning
pub mod Seeing
pub mod Laws

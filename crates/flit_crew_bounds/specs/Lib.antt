pub mod Left
pub mod Winning
pub mod Counting
pub mod Bounding
pub mod BoundedMeanings
pub mod Laws

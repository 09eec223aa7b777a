pub mod Walks
pub mod Knowing
pub mod Loads
pub mod ListAnatomy
pub mod ListCrew
pub mod Laws

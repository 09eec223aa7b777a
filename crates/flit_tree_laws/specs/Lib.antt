pub mod TreeAnatomy
pub mod Knowing
pub mod TreeCrew
pub mod Laws

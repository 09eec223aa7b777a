pub mod OneKeyAnatomy
pub mod OneKeyCrew

pub mod Carrying
pub mod Arriving
pub mod OneKeyCounts
pub mod OneKeyBounds
pub mod OneKeyKeepsLimits

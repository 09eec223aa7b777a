pub mod OneKeyLimits

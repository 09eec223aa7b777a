pub mod Asking
pub mod OneEvent

pub mod Opened
pub mod InOrder

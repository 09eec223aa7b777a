pub mod Taking
pub mod InputLaws

pub mod Sentenced

pub mod Marked
pub mod ListMarks

pub mod Machines
pub mod Answers
pub mod Meanings
pub mod Fitting

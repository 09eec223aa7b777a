pub mod Generator
pub mod Writing
pub mod MadeTraces

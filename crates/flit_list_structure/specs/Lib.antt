pub mod ListStructure

pub mod TreeStructure

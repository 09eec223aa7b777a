pub mod Benches
pub mod Searches
pub mod TreeSearches

pub mod ChainWalks
pub mod TreeWalks
pub mod WholeImages
pub mod Entries
pub mod FreeRows
pub mod SameMaps
pub mod Replies
pub mod Orders

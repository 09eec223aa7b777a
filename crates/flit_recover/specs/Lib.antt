pub mod ListWalks
pub mod TreeWalks
pub mod TreeFinds
pub mod Damages
pub mod Marks
pub mod Copies
pub mod AboutDamages
pub mod KeyCounts

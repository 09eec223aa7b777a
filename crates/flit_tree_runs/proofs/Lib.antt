mod OpenedTrees
mod ItemCounts
mod Works

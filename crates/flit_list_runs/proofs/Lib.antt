mod OpenedLists
mod ItemCounts
mod Works

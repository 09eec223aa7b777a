pub mod TreeLimits
pub mod Laws

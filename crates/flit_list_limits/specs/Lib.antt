pub mod ListLimits
pub mod Laws

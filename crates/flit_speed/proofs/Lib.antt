pub mod AloneLaws
pub mod FoundLaws
pub mod FreshOpens
pub mod ListOpens
pub mod TreeOpens

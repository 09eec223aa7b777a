pub mod ListTries
pub mod Laws

pub mod CallLines
pub mod MadeTraces
pub mod OwnKeys

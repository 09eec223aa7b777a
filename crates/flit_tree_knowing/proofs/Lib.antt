pub mod Positions
pub mod Lasting
pub mod Growing
pub mod Loading
pub mod Going
pub mod Winning

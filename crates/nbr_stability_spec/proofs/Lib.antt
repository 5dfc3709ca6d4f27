pub mod Bound
pub mod Tight

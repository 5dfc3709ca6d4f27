pub mod Frame
pub mod Limits
pub mod Claims

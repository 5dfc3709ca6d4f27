pub mod Decide
pub mod Compare
pub mod Claims

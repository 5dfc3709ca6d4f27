pub mod Best
pub mod Places
pub mod Kept
pub mod Chosen
pub mod Witnesses
pub mod Joins

pub mod Policy
pub mod Read
pub mod Claims
pub mod Witnesses

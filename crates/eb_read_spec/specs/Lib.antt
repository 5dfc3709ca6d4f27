pub mod Policy
pub mod Decode
pub mod Read
pub mod Form
pub mod Claims
pub mod Inside
pub mod Network
pub mod Witnesses

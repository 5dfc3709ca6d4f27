pub mod Frame
pub mod Limits
pub mod Write
pub mod Form
pub mod Claims

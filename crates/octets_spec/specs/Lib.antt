pub mod Choice
pub mod Counted
pub mod Number

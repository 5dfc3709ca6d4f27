pub mod Names
pub mod Content
pub mod Fields

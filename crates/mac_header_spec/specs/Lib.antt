pub mod Control
pub mod Fields

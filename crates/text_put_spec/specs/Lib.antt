pub mod Part
pub mod Text

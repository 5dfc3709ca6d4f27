pub mod Part
pub mod Same

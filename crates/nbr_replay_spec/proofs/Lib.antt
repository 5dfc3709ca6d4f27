pub mod LogLaws
pub mod Snoc
pub mod StepLaws
pub mod ReplayLaws

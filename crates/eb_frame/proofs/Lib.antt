pub mod MacHeaderLaws
pub mod JoiningLaws
pub mod FramingLaws

pub mod WalkLaws
pub mod ListLaws

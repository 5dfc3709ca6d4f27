pub mod ChoiceLaws
pub mod NumberLaws
pub mod PutLaws
pub mod CountedLaws
pub mod SplitLaws

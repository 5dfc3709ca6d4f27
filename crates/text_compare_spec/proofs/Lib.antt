pub mod CompareTextLaws

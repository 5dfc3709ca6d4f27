pub mod CompareText

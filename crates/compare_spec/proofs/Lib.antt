pub mod FieldsLaws
pub mod ToldLaws
pub mod BesideLaws
pub mod DifferenceLaws
pub mod Compared
pub mod Witnessed
pub mod AnswerLaws

pub mod FormLaws
pub mod FieldForms

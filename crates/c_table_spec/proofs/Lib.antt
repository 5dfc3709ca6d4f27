pub mod FormLaws
pub mod Agree
pub mod CallForms
pub mod Witness

pub mod EachLaws
pub mod TemplateLaws
pub mod SlotframeLaws
pub mod GroupLaws

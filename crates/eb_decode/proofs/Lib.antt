pub mod FixedLaws
pub mod HeaderLaws
pub mod ElementLaws
pub mod FormLaws

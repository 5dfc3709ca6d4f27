pub mod Claimed
pub mod FormLaws

pub mod LengthLaws
pub mod RangeLaws
pub mod RowLaws
pub mod WrittenLaws
pub mod Claimed
pub mod FormLaws

pub mod PolicyLaws
pub mod Judged
pub mod FoundLaws
pub mod ReadLaws
pub mod Claimed
pub mod Witnessed

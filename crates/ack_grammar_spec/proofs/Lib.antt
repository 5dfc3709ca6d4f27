pub mod Opened
pub mod Lists
pub mod Agreed
pub mod Followed
pub mod SaidLaws

pub mod SlotLaws
pub mod Scanned
pub mod Permutation
pub mod Sleeps

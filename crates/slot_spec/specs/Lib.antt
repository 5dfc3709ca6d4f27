pub mod Hopping
pub mod Slot
pub mod Answer
pub mod Scan
pub mod Claims

pub mod Soundness
pub mod Witness

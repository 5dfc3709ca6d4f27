-- What the contracts of lines cite. Assumes nothing.
pub mod Puts

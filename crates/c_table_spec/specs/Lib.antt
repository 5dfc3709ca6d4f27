pub mod Table
pub mod Claims

pub mod Record
pub mod Form

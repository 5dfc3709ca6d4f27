pub mod Row
pub mod Grammar
pub mod Claims
pub mod Follows
pub mod Witnesses

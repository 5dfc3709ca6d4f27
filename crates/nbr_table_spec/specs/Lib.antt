pub mod Places
pub mod Changes
pub mod Calls
pub mod Stores
pub mod Offers

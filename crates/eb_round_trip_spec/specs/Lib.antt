pub mod ReadBack
pub mod Accepted
pub mod RoundTrip

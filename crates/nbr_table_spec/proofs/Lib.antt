pub mod PlaceLaws
pub mod ScanLaws
pub mod CallLaws
pub mod StoreLaws
pub mod OfferLaws

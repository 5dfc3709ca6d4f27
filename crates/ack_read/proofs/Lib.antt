pub mod DecodeLaws

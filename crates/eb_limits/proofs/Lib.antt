pub mod SizeLaws
pub mod LimitLaws

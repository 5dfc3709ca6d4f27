pub mod MetricLaws
pub mod JoinLaws

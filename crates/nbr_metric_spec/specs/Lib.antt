pub mod Metric
pub mod JoinMetric

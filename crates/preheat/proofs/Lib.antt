pub mod Evaluation
pub mod Counts
pub mod Readings
pub mod Values
pub mod Cases
pub mod Demand

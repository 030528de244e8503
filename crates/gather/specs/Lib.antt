pub mod Gathered
pub mod Step

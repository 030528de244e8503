pub mod Preheat
pub mod Demand

pub mod Records
pub mod Fronts
pub mod Examples

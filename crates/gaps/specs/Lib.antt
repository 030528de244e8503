pub mod Knots
pub mod Limits

pub mod Minutes
pub mod Kept

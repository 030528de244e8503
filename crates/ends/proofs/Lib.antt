pub mod Codes
pub mod Cases
pub mod Patterns

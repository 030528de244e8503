pub mod Examples
pub mod Patterns

pub mod Zeros
pub mod ThirdRow
pub mod Examples
pub mod Patterns

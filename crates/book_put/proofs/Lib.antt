pub mod Placing
pub mod Bytes
pub mod Splicing
pub mod Answers
pub mod Examples

pub mod Gaps
pub mod Search

pub mod Beyond
pub mod Peak
pub mod Gaps
pub mod Swings
pub mod Examples

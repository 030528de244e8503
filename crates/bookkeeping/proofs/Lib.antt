pub mod Inverse
pub mod Kept
pub mod Examples

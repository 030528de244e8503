pub mod Ranges
pub mod Told

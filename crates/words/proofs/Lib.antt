pub mod Rows
pub mod Lengths
pub mod Examples

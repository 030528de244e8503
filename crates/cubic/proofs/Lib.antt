pub mod Entries
pub mod Equations
pub mod Sizes
pub mod Smooth
pub mod Table
pub mod Example

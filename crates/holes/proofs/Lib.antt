pub mod Marks
pub mod Sides
pub mod Lines
pub mod Examples

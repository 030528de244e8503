pub mod Hole
pub mod Needs

pub mod Knots
pub mod Reply
pub mod Mending

pub mod Differing
pub mod Fresh
pub mod Promise

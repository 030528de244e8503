pub mod Fit
pub mod Promise

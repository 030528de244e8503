pub mod Sheet
pub mod Jobs
pub mod Forward
pub mod Back
pub mod Passes

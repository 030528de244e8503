pub mod Fitting
pub mod Named
pub mod Told
pub mod Cases

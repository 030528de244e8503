pub mod Told
pub mod Parts
pub mod Named
pub mod Reason
pub mod Fractions
pub mod Fits
pub mod Says

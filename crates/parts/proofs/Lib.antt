pub mod Terms
pub mod Sizes
pub mod Numerators
pub mod OfKinds

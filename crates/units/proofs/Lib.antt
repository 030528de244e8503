pub mod Held
pub mod Scale
pub mod Fields
pub mod Cases

pub mod Units
pub mod Bits

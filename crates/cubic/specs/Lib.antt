pub mod Cubic

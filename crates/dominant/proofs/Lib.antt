pub mod Dominant

pub mod Bytes
pub mod Held
pub mod Records

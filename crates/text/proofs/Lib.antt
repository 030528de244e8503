pub mod Lines
pub mod Blames
pub mod Names
pub mod Readings
pub mod Room
pub mod Written
pub mod Logs
pub mod Examples

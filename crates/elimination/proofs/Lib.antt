pub mod Words
pub mod Cases
pub mod Examples

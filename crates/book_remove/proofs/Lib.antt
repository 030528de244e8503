pub mod Taking
pub mod Closing
pub mod Answers
pub mod Examples

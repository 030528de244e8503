pub mod Runs
pub mod Backs
pub mod Answers
pub mod Cases

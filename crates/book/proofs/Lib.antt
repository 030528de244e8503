pub mod Standing
pub mod Rooms
pub mod Walks
pub mod Runs
pub mod Answers
pub mod Examples

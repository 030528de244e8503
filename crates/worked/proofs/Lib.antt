pub mod Held
pub mod Worked
pub mod Outcome

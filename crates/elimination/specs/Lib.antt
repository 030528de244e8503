pub mod Elimination
pub mod Refusal

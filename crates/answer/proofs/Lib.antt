pub mod Steps
pub mod Loops
pub mod Chain
pub mod Never
pub mod Outcome
pub mod Lent
pub mod Orders

pub mod Answer
pub mod Judge
pub mod Lent

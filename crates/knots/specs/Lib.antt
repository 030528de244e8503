pub mod Kinds
pub mod Lent

pub mod Book
pub mod Lookup
pub mod Steps

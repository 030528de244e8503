pub mod Values
pub mod Numbers
pub mod Spelled
pub mod OneSpelling

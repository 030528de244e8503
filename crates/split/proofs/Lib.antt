pub mod Stops
pub mod Words
pub mod Numbered
pub mod Unmarked

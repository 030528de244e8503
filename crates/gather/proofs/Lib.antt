pub mod Folding
pub mod Closing
pub mod Marks

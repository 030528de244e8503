pub mod Sentences
pub mod Said

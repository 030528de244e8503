pub mod Sloped

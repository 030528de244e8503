pub mod Changed
pub mod PutBack
pub mod Afterwards
pub mod Examples
pub mod Numbered

pub mod Listed
pub mod Filled

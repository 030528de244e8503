pub mod Carried
pub mod Accepted

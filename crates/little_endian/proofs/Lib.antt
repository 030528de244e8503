pub mod Numbers
pub mod Bytes
pub mod Stores
pub mod Signs
pub mod Fronts

pub mod Types
pub mod Version

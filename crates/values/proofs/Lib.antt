pub mod Reading
pub mod Examples

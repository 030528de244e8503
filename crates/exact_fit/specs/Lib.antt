pub mod Given
pub mod Solution

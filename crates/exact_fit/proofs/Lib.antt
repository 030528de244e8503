pub mod Given
pub mod Solution
pub mod Cases

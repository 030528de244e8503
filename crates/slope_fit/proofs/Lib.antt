pub mod Given
pub mod Order
pub mod Card
pub mod Numbered
pub mod Rows

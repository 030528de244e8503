pub mod Changes
pub mod Order
pub mod Promise

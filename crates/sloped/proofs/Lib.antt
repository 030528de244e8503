pub mod Row
pub mod Sloped
pub mod Ends
pub mod Cases

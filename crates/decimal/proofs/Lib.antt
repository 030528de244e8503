pub mod Puts
pub mod Digits
pub mod Minus
pub mod Widths
pub mod Lengths
pub mod Examples

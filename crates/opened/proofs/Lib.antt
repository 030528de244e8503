pub mod Shape
pub mod Jumping
pub mod Fronts
pub mod Opening

pub mod Floats
pub mod Equations
pub mod Matrices

pub mod Linear
pub mod Energy
pub mod Balance
pub mod Zero
pub mod Unique

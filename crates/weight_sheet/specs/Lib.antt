pub mod Weight
pub mod Sheet

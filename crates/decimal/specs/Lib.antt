pub mod Decimal
pub mod Put

pub mod Written
pub mod OffSheet

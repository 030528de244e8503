pub mod Numbers
pub mod Sheet

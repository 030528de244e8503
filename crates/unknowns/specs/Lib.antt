pub mod Unknowns

pub mod Put
pub mod Splice

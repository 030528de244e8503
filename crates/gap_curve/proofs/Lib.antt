pub mod Coded
pub mod Near
pub mod Shared
pub mod LaidReads
pub mod Handed

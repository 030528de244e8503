pub mod Out
pub mod Keeping
pub mod InUse
pub mod Removed
pub mod History

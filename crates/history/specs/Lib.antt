pub mod History
pub mod InUse

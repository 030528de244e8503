pub mod Columns
pub mod Bridges
pub mod Planning
pub mod Mending
pub mod FillReads

pub mod Replies
pub mod Slots
pub mod Gathers
pub mod Lists
pub mod Places
pub mod Examples
pub mod Slopes

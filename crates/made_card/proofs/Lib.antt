pub mod Typed
pub mod Made
pub mod Logless
pub mod Ends

pub mod Places
pub mod Given
pub mod Renewal
pub mod Unchanged
pub mod NeverSeven

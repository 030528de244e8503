pub mod Proper
pub mod Steps
pub mod Folding
pub mod Cutting
pub mod Gluing
pub mod Records
pub mod Examples

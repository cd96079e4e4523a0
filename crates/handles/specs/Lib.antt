pub mod Handles
pub mod Live
pub mod Stored

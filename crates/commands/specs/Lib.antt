pub mod Modes
pub mod Statuses

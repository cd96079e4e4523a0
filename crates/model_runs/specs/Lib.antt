pub mod Applications
pub mod Runs
pub mod Lives

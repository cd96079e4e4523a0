pub mod Remembered
pub mod Following

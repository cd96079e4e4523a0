pub mod Lines
pub mod Serve
pub mod Parts

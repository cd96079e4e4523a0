pub mod Ciphering
mod Bounds
pub mod Signing
pub mod Ending
pub mod Beginning

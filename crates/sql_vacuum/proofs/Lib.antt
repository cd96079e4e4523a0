pub mod Puts
pub mod Fills
pub mod Files
pub mod Quiet

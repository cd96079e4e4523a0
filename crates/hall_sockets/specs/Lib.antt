pub mod Calling
pub mod Served
pub mod Staying
pub mod Telling
pub mod Writing

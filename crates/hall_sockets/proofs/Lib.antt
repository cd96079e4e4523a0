pub mod ByHistory
pub mod Bytes
pub mod Calling
pub mod Crosses
pub mod Standing
pub mod Staying
pub mod Writing

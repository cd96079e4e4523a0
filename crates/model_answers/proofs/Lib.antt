pub mod Templates
pub mod Sizes
pub mod Telling
pub mod Proper
pub mod Standing

pub mod Outcomes
mod Shortness
mod Revealing
pub mod Endings
pub mod Dispatching
pub mod Refused
pub mod Memory
pub mod States
pub mod Finished

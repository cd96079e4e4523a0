pub mod Dispatching
pub mod Endings
pub mod Memory
pub mod States
pub mod Turns

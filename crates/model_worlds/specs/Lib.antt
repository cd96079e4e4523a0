pub mod Events
pub mod Worlds
pub mod Traces
pub mod Tries
pub mod WorkResults

pub mod Masks
pub mod Blind
pub mod Checks
pub mod Seen
pub mod Refused

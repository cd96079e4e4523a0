pub mod Objects
pub mod Unwrapping

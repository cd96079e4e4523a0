pub mod Generating
pub mod Reading
pub mod Wrapping

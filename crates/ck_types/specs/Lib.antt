pub mod Numbers
pub mod Format
pub mod Canonical
pub mod Coding
pub mod Entry
pub mod Numbered
pub mod Limits

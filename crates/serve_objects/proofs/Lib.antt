pub mod Making
pub mod Destroying
pub mod Setting
mod Short
pub mod Numbering
pub mod Fitting
pub mod Searches

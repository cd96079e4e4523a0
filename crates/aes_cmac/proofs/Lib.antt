pub mod Messages
pub mod Doubled

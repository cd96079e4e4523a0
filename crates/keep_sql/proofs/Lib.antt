pub mod Outcomes
pub mod Taken
pub mod Takes
pub mod Refusals
pub mod Crashes
pub mod Unwritten

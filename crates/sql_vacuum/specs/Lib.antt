pub mod Copies
pub mod Filled
pub mod FileOf
pub mod VacuumThenOpen

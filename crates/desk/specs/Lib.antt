pub mod Desks
pub mod Jobs

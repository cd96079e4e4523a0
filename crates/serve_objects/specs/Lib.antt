pub mod Giving
pub mod Doing

pub mod Crosses
pub mod Giving

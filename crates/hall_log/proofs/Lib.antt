pub mod Beginnings
pub mod Crosses
pub mod Lists
pub mod Logs
pub mod Mays
pub mod Steps
pub mod Telling

pub mod Counting
pub mod Histories
pub mod Lists
pub mod Log
pub mod Putting
pub mod SeatLogs
pub mod Suiting

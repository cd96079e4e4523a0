pub mod Ending
pub mod Giving
pub mod HistoryLaws
pub mod MoreHistory
pub mod PendingJobs
pub mod Sparing
pub mod Turns

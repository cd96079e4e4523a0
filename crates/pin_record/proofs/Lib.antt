pub mod StoredLaws
pub mod Counting

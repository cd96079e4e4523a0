pub mod TaskResults
pub mod Views
pub mod Changes
pub mod Answering
pub mod Refusals
pub mod Checked
pub mod Calls

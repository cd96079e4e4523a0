pub mod Seen
pub mod Told
pub mod RunLaws
pub mod UnderWay
pub mod Ends
pub mod Tries
pub mod Failures

pub mod BrokenLemmas
pub mod FrameLemmas
pub mod RunLemmas
pub mod Written

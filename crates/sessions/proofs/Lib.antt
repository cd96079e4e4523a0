pub mod ChangeLemmas
pub mod SessionLemmas
pub mod Retaining

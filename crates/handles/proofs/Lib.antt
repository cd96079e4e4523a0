pub mod EntryLemmas
pub mod HandleLemmas
pub mod LiveLemmas
pub mod StoredLemmas

pub mod SBoxEntries
pub mod MixEntries
pub mod RoundConstants
pub mod RoundWords
pub mod WordsInRow
pub mod ScheduleWords
pub mod StoredKeys

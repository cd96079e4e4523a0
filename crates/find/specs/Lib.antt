pub mod Matching
pub mod MatchingLaws
pub mod Marks
pub mod MarkLaws
pub mod Codes
pub mod CodeLaws

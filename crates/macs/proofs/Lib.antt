pub mod TagLengths
pub mod CmacLaw

pub mod Found
pub mod Faults
pub mod Modes
pub mod Reasons
pub mod Refusal
pub mod CrashThenOpen

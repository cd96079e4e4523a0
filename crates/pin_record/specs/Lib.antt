pub mod Verifiers
pub mod Records
pub mod Flags
pub mod Stored
pub mod Charges

pub mod Operations
pub mod Texts

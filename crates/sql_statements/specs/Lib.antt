pub mod Tables
pub mod Bodies
pub mod Store
pub mod Rows
pub mod Ran

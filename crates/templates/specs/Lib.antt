pub mod Making
pub mod Faults
pub mod Made
pub mod Guarded

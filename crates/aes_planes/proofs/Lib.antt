pub mod Bits
pub mod TruthTables
pub mod Circuits
pub mod InverseCircuits

pub mod Iterates
pub mod Keys
pub mod XorBytes

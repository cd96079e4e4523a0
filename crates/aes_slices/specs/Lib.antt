pub mod Slices
pub mod Rows
pub mod Keys
pub mod Decrypt
pub mod BatchKeys

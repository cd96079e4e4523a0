pub mod Damage
pub mod Bytes

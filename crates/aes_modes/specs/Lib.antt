pub mod Blocks
pub mod Counter
pub mod Padding
pub mod Modes
pub mod Directions

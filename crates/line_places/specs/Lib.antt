pub mod Arriving
pub mod Coming
pub mod Due
pub mod Happening
pub mod Keeping
pub mod Permitting
pub mod Standing
pub mod Tying

pub mod Arriving
pub mod Changing
pub mod Crosses
pub mod Doing
pub mod Keeping
pub mod Standing
pub mod Tying
pub mod Owing

pub mod Wrappings
pub mod Runnable
pub mod Works
pub mod Rooms
pub mod Endings

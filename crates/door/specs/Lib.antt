pub mod Ends
pub mod Coming

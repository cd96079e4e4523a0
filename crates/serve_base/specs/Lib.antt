pub mod Short
pub mod Shown
pub mod Listing
pub mod Stores
pub mod Found
pub mod Refusing
pub mod Searching
pub mod Asking

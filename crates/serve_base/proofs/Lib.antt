pub mod Changing
mod Edits
mod Marking
pub mod Storing
pub mod Gaves
pub mod Refusals
pub mod Plain
pub mod Serving
pub mod Seeing
pub mod InSession
pub mod Listing
mod Searched
mod Decided
pub mod Lengths
pub mod Reading
pub mod NewObjects

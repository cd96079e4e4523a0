pub mod Beginning
pub mod Given
pub mod Held
pub mod Histories
pub mod SeatEvents
pub mod SpareIds
pub mod Terms

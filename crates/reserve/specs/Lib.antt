pub mod ReservedState

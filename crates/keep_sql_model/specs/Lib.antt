pub mod Store
pub mod Formats
pub mod Rows
pub mod Renewals
pub mod Opening
pub mod Laws
pub mod SqlState
pub mod OpenedFile

pub mod Moving
pub mod Leading
pub mod Serving
pub mod Going

pub mod Loop
pub mod Narrowed

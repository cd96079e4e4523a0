pub mod OneTransaction
pub mod RanEach
pub mod Renewed

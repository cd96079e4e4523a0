pub mod RightLaw
pub mod FirstTexts
pub mod OutputLaw
pub mod Decrypted
pub mod Counted

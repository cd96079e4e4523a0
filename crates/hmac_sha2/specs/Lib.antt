pub mod Hmac
pub mod Stepwise
pub mod Pbkdf2

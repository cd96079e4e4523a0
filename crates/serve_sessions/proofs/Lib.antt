pub mod Closing
pub mod Charging
pub mod LoggingIn

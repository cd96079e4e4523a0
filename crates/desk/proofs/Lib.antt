pub mod Discreet

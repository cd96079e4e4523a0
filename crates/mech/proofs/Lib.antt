pub mod Wrappings

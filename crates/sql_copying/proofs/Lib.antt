pub mod Uncopied

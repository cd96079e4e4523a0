pub mod Each
pub mod Renews
pub mod Commits
pub mod Inside
mod Shut

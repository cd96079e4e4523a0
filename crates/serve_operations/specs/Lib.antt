pub mod Steps
pub mod Beginning

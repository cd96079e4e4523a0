pub mod Crosses
pub mod EndsCross

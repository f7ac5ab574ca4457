pub mod Depth
pub mod Height

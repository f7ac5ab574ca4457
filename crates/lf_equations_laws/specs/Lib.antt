pub mod Extension
pub mod Shape

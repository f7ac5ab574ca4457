pub mod Compiles
pub mod Values
pub mod Parts

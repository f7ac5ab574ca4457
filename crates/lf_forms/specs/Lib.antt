pub mod Terms
pub mod Blocks
pub mod Escapes

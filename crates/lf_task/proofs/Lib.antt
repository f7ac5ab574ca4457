pub mod Blocks
pub mod Asked
pub mod Befores

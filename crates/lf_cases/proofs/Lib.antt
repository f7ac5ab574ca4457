pub mod Speaks
pub mod Minors
pub mod Putting
pub mod Eliminations

pub mod Speaks
pub mod Fronts
pub mod Recursive
pub mod Heads

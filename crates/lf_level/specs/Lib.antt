pub mod Parameters
pub mod Answer
pub mod Decision
pub mod Lanes

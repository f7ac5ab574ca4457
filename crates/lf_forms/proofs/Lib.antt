pub mod Remaining
pub mod Nodes
pub mod Taken
pub mod Turned

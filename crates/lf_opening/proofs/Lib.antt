pub mod Turns
pub mod Counts
pub mod Listed
pub mod Places
pub mod Cycles
pub mod Unfolded
pub mod Reflexive

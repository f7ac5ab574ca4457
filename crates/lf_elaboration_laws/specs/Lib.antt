pub mod Extension
pub mod Unifier
pub mod Reached
pub mod Keeping
pub mod Needs
pub mod Closed
pub mod Once
pub mod Enough

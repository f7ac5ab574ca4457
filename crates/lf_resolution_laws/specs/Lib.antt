pub mod Extension
pub mod Least
pub mod Needs

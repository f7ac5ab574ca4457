pub mod Extension
pub mod Needs

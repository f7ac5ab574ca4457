pub mod Extension
pub mod Calm
pub mod Needs
pub mod Enough

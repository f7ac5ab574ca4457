pub mod Spines
pub mod Steps

pub mod Walked
pub mod Slots

pub mod Entries
pub mod Turns
pub mod Shown
pub mod Changes
pub mod Parents
pub mod Joins
pub mod Few

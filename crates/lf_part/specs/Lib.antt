pub mod Says
pub mod Halts
pub mod Local
pub mod Values
pub mod Runs
pub mod Tells
pub mod Into
pub mod Meanings

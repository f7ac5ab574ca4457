pub mod Readers
pub mod Spells

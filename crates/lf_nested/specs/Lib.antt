pub mod Types
pub mod Blocks
pub mod Binders
pub mod Rounds
pub mod Rests
pub mod Words

pub mod Telescopes
pub mod Recursors
pub mod Closed
pub mod Declarations
pub mod Growing
pub mod Fields
pub mod Ordinary

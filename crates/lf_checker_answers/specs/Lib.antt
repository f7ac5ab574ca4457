pub mod Worked
pub mod Ordinary

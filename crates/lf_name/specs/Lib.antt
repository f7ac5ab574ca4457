pub mod Name
pub mod Same
pub mod Codes

pub mod Rebuilt
pub mod Places

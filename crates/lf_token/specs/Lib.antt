pub mod Cover
pub mod Layouts
pub mod Places
pub mod Scan
pub mod Spelling

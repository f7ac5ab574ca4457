pub mod Rows
pub mod Soles

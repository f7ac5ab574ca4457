pub mod Texts
pub mod Leveled

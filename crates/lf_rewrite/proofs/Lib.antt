pub mod Standing
pub mod Spines
pub mod Listed

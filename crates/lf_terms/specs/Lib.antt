pub mod Values
pub mod Walk
pub mod Forms
pub mod Holes

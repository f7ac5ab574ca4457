pub mod Values
pub mod Opens

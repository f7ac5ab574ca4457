pub mod Unused
pub mod Forms
pub mod Opens
pub mod Spelled

pub mod Later
pub mod Scope

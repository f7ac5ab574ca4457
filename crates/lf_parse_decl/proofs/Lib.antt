pub mod First
pub mod Symbols
pub mod Declarations

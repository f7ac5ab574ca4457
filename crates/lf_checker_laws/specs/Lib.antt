pub mod Levels
pub mod Soundness
pub mod Declarations
pub mod Limits

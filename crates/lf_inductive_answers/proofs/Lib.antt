pub mod Recursors
pub mod Admissions
pub mod Refusals
pub mod Needs
pub mod Reductions
pub mod Structures
pub mod Typed
pub mod LeftOut

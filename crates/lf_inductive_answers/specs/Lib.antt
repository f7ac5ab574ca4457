pub mod Recursors
pub mod Admissions
pub mod Refusals
pub mod Needs
pub mod Reductions
pub mod Typed
pub mod LeftOut
pub mod Structures

pub mod Admission
pub mod Forms
pub mod Refusals
pub mod Elimination
pub mod Shallow

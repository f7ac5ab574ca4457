pub mod Words
pub mod Declarations
pub mod Elimination
pub mod Refused
pub mod Views

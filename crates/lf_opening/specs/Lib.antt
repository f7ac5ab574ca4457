pub mod Openings
pub mod Pis
pub mod Goals
pub mod Rules
pub mod Unfolds
pub mod Cycle

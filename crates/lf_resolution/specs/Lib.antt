pub mod Candidate
pub mod Attempt
pub mod Tree
pub mod Walk

pub mod Kept
pub mod Answers
pub mod Head
pub mod Limited

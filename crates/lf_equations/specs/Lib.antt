pub mod Outcome
pub mod Argument
pub mod Coverage
pub mod Recursion
pub mod Compile

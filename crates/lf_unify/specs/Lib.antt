pub mod Runs
pub mod Pairs
pub mod Values
pub mod Tower
pub mod Forms
pub mod Answers

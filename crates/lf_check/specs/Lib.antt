pub mod Steps
pub mod Values
pub mod Forms
pub mod Front
pub mod Bodies
pub mod Tower
pub mod Answers

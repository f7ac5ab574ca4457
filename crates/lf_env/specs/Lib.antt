pub mod Names
pub mod Layer
pub mod Answer
pub mod Few

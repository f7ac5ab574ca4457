pub mod Items
pub mod Steps
pub mod Places
pub mod Meeting

pub mod Theres
pub mod Returns
pub mod Tellings

pub mod Told
pub mod Lists
pub mod Steps
pub mod Fresh
pub mod Command
pub mod Returns
pub mod Admitted

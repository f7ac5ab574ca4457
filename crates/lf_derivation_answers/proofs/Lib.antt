pub mod Base_views
pub mod Worked

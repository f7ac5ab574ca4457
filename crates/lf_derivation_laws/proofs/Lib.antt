pub mod Own_names
pub mod Lists_of_items
pub mod Known_items
pub mod Lists
pub mod Reading
pub mod Shown

pub mod Opens
pub mod Lists

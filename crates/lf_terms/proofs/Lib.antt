pub mod Binds
pub mod Firsts
pub mod Walks
pub mod Lists
pub mod Holes

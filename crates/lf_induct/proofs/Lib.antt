pub mod Own
pub mod Orders
pub mod Walks
pub mod Listings
pub mod Depths
pub mod Alike
pub mod Shadowed

pub mod Parts
pub mod Meant
pub mod Within
pub mod Returned

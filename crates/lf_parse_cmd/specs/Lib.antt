pub mod Faults
pub mod Within

pub mod Branch
pub mod Fault

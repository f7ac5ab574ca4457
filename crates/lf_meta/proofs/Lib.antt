pub mod Absent
pub mod Changing
pub mod Heads
pub mod Tables

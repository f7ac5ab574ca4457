pub mod Fuller
pub mod Worked

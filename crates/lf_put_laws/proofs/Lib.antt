pub mod Instances
pub mod Laters
pub mod Shown
pub mod Puts
pub mod Tests
pub mod Assigned
pub mod States

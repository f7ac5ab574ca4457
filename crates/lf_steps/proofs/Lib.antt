pub mod Spines
pub mod LevelTests
pub mod Costs
pub mod Runs
pub mod Bodies
pub mod Structures
pub mod Splits

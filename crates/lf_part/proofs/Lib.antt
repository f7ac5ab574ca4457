pub mod Fronts
pub mod Costs
pub mod Runs
pub mod Calls
pub mod Into
pub mod Counts

pub mod Collecting
pub mod Regions
pub mod Trials
pub mod Decided
pub mod Places
pub mod Tried_lists
pub mod Tried_values
pub mod Metavariables

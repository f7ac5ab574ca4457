pub mod Bounds
pub mod Cuts
pub mod Derivations
pub mod Effects
pub mod Flows
pub mod Found
pub mod Rows
pub mod Sketch

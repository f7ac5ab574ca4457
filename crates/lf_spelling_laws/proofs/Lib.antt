pub mod Derivations
pub mod Found
pub mod LevelsOf
pub mod Rows
pub mod Says

pub mod Levels
pub mod Pis
pub mod Settled
pub mod Into
pub mod Unifies
pub mod Towers
pub mod Scopes

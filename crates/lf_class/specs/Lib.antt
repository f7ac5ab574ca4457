pub mod Named
pub mod Into
pub mod Tower

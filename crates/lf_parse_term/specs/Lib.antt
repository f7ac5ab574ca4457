pub mod Machine
pub mod View
pub mod Front
pub mod Descent
pub mod Level
pub mod Spine
pub mod Sort

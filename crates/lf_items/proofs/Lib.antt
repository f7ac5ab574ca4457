pub mod Binders
pub mod Pads
pub mod Latest

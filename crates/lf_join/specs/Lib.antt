pub mod Sets
pub mod LineParts
pub mod Marked
